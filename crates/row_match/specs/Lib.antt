pub mod Patterns
pub mod Prepared
pub mod Filters
pub mod Shapes
