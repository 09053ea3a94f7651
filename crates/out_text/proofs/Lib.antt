pub mod RowTextLaws
pub mod WritingLaws
