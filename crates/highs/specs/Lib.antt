pub mod Highs
pub mod HighsLaws
pub mod Asks
