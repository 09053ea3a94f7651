pub mod Flat
pub mod Pointwise
pub mod Stepping
pub mod Arriving
pub mod Keeping
pub mod Turning
pub mod Finishing
pub mod Joined
