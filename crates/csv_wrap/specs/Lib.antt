pub mod Ahead
pub mod Pulls
pub mod Readings
pub mod Rows
pub mod Sound
pub use Rattle.med_prelude.specs.Texts
pub mod Wrapped
