pub mod PieceLaws
pub mod Scans
pub mod PublicSteps
pub mod SecretSteps
pub mod Determined
