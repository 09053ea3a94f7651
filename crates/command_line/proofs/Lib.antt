mod Examples
pub mod FindingLaws
pub mod FormLaws
pub mod NamingLaws
pub mod ReadingLaws
