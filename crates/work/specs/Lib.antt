pub mod Areas
pub mod Packed
pub mod Views
