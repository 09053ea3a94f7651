pub mod AcceptedLaws
pub mod Colons
pub mod DoubledLaws
pub mod FormLaws
pub mod LimitLaws
pub mod LocationLaws
pub mod RefusalLaws
pub mod WhyLaws
