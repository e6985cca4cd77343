pub mod Held
pub mod HeldLaws
