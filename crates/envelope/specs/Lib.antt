pub mod Envelope
pub mod Program
pub mod Asks
pub mod Promises
pub mod EnvelopeLaws
pub mod RoundTripLaws
