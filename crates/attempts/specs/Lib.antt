pub mod Attempt
pub mod AttemptLaws
pub mod Steps
pub mod Asks
pub mod Promises
