pub mod Frames
pub mod Kids
pub mod Spotting
pub mod Clearing
