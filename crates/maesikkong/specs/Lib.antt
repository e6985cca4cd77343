pub mod Promises
pub mod Roster
