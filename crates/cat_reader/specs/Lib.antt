pub mod Accepted
pub mod Catalogue
pub mod Doubled
pub mod Forms
pub mod Limits
pub mod Locations
pub mod Relations
