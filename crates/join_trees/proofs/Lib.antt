pub mod ShapeLaws
pub mod TokenLaws
pub mod ReadingLaws
pub mod TreeLaws
