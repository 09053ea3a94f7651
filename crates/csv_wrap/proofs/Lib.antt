pub mod AheadLaws
pub mod FieldLaws
pub mod FrameCount
pub mod RowLaws
pub mod VerdictLaws
pub mod WrapLaws
