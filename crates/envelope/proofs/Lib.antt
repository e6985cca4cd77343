pub mod InputSteps
pub mod Determined
pub mod HeadSteps
pub mod PartLaws
pub mod ReadSteps
pub mod WriteSteps
