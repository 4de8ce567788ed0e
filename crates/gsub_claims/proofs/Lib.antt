pub mod Again
pub mod Theorems
