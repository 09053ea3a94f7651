pub mod Records
pub mod RunReading
pub mod Runs
