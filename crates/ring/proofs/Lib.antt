pub mod Numbers
pub mod Loops
pub mod Places
pub mod ProductLaws
pub mod SparseLaws
pub mod Determined
