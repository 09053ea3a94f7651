pub mod Examples
pub mod Kept
pub mod Seating
pub mod Sums
