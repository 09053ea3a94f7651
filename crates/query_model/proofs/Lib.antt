pub mod Binding
pub mod Fitting
pub mod Walking
