pub mod Search
pub mod SearchLaws
pub mod Sign
pub mod Promises
pub mod Asks
pub mod OwnKeyLaws
