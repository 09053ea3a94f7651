pub mod LocationLaws
pub mod ItemLaws
pub mod FormLaws
pub mod RefusalLaws
