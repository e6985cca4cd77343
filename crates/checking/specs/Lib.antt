pub mod Check
pub mod Steps
pub mod StepsLaws
pub mod Asks
