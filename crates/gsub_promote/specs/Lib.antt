pub mod Search
pub mod Tried
