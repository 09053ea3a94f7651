pub mod Keywords
pub mod Naming
pub mod Tokens
pub mod Grammar
pub mod Machine
pub mod Reading
pub mod Laws
