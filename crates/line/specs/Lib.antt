pub mod Values
pub mod Conversions
pub mod Code
pub mod Cable
pub mod Radio
pub mod Laws
