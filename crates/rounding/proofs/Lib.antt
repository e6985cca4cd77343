pub mod Laws
pub mod Bytes
pub mod Items
pub mod Determined
