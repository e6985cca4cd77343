pub mod Constants
pub mod Offsets
pub mod State
pub mod Steps
