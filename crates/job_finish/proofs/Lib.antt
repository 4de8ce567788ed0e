pub mod Packing
pub mod Ending
