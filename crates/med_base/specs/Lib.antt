pub mod Clocks
pub mod Outside
pub mod Sites
pub mod Spills
pub mod Statuses
pub mod Stored
pub use Rattle.med_prelude.specs.Counts
pub use Rattle.med_prelude.specs.Texts
