pub mod State
pub mod Given
pub mod Steps
pub mod Sides
pub mod Kept
pub mod Testing
