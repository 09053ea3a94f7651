pub mod Growing
pub mod Indexed
pub mod Encodings
