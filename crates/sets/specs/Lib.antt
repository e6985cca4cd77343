pub mod Good
pub mod GoodLaws
pub mod Limits
pub mod Marks
pub mod SetI
pub mod SetIII
pub mod Known
