pub mod Limits
pub mod Mentions
pub mod Parts
pub mod Kinds
pub mod Directories
pub mod Checks
pub mod Reading
pub mod Fitting
