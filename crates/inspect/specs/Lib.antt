pub mod Explanations
pub mod Expectations
pub mod Printing
