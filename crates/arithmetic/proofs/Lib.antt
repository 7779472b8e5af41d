pub mod Bases
pub mod Folds
pub mod Sums
pub mod Remainders
pub mod Dividing
