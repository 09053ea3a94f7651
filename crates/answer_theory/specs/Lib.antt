pub mod Bags
pub mod Bindings
pub mod Solutions
pub mod Trees
pub mod Choices
pub mod Pairs
pub mod Rows
