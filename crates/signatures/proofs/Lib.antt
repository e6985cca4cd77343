pub mod Sizes
pub mod Steps
pub mod Determined
