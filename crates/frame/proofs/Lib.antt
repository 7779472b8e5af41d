pub mod Blocks
pub mod Sealing
pub mod Laws
pub mod Outcomes
