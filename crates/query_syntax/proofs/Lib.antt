pub mod TokenLaws
pub mod ReadingLaws
pub mod Spelled
pub mod Completions
pub mod WholeRuns
pub mod GrammarLaws
