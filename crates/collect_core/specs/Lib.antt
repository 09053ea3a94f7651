pub mod Selecting
pub mod Reading
pub mod Members
pub mod Collecting
pub mod Steps
pub mod Turning
pub mod Giving
