pub mod Determined
pub mod EnvelopeSteps
