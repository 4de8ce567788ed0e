pub mod Fitting
pub mod Trying
