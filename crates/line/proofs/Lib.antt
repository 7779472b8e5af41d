pub mod Codes
pub mod Numbers
pub mod Radios
pub mod Registers
