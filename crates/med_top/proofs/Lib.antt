pub mod AtomLaws
pub mod FetchLaws
pub mod LoadLaws
pub mod MemberLaws
pub mod OutcomeLaws
pub mod TakingLaws
pub mod TargetLaws
