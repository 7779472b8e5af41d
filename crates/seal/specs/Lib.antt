pub mod Code
pub mod Plain
pub mod Xtea
pub mod Laws
