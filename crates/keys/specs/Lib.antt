pub mod Key
pub mod KeyLaws
pub mod Made
pub mod MadeLaws
pub mod Asks
pub mod Promises
