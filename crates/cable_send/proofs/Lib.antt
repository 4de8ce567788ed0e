pub mod Cuts
pub mod Example
