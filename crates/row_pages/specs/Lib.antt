pub mod Lying
pub mod Sorting
