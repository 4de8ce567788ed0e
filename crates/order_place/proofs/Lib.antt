pub mod Turns
pub mod Starting
pub mod Between
pub mod Queue
pub mod Rooting
pub mod Heaping
