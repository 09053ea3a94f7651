pub mod Counts
pub mod Texts
pub mod Names
pub mod Reading
pub mod Lists
