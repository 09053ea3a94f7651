pub mod Drying
pub mod Running
