pub mod Bounds
pub mod Determined
pub mod LaneBits
pub mod Register
pub mod Rounds
