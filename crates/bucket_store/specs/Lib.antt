pub mod Places
pub mod Held
pub mod Keys
pub mod Addresses
pub mod Chained
pub mod Stored
