pub mod CheckSteps
pub mod Determined
pub mod HashSteps
pub mod Same
pub mod WSteps
pub mod WorkSteps
