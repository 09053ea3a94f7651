pub mod OrderLaws
pub mod CheckLaws
pub mod FaultLaws
pub mod RunLaws
pub mod NameLaws
pub mod QuoteLaws
pub mod LexingLaws
pub mod MachineLaws
