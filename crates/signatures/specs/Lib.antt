pub mod Signature
pub mod Asks
pub mod Promises
pub mod Laws
pub mod RoundTripLaws
