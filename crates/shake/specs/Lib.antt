pub mod Sponge
pub mod Shake256
pub mod Pieces
pub mod Whole
