pub mod Places
pub mod Chaining
pub mod Walking
pub mod Probing
pub mod Storing
pub mod Keeping
