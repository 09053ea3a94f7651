pub mod Utf8
