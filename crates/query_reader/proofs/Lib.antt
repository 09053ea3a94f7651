pub mod MentionLaws
pub mod FirstLaws
pub mod OffsetLaws
mod BoundLaws
mod GrammarLaws
pub mod FittingLaws
mod ReadingExamples
