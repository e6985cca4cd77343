pub mod Determined
pub mod PassedSteps
pub mod PutSteps
pub mod RecordSteps
pub mod SumSteps
