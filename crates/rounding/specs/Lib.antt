pub mod Centred
pub mod CentredLaws
pub mod Parts
pub mod PartsLaws
pub mod Tests
pub mod Asks
