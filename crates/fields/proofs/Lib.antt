pub mod Places
pub mod Groups
pub mod Cuts
pub mod Made
pub mod Layouts
