pub mod CutLaws
pub mod MarkLaws
pub mod FindLaws
pub mod HoldLaws
pub mod PieceLaws
