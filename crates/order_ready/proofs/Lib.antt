pub mod Lent
pub mod Heaps
