pub mod Shapes
pub mod Tokens
pub mod Machine
