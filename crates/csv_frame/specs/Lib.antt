pub mod Frames
pub mod Scanning
pub mod Marks
pub mod Holding
pub mod Whole
