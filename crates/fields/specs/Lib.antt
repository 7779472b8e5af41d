pub mod Types
pub mod Layout
pub mod Sizes
pub mod Bodies
pub mod Closed
pub mod Words
