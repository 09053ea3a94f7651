pub mod FrameLaws
pub mod LineLaws
pub mod ReaderLaws
pub mod RunLaws
