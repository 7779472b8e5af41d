pub mod Payloads
pub mod Frames
pub mod Refusing
pub mod Calls
pub mod Words
