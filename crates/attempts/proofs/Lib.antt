pub mod RowSteps
pub mod ProductSteps
pub mod TestSteps
pub mod AttemptSteps
pub mod Determined
