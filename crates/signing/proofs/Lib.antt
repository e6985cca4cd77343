pub mod SearchSteps
pub mod SignSteps
pub mod Determined
