pub mod Frames
pub mod Values
pub mod Refusing
pub mod Calls
pub mod Words
