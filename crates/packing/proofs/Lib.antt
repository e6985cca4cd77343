pub mod Steps
pub mod Determined
pub mod Signs
