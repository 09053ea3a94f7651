pub mod Blocks
pub mod Entries
pub mod Listings
pub mod Places
pub mod Reading
pub mod Tables
pub mod Windows
