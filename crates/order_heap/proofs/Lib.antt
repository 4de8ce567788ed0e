pub mod Bags
pub mod Each
pub mod Holes
pub mod Leading
pub mod Rises
pub mod Stamped
pub mod Steps
