pub mod FaultText
pub mod Writing
