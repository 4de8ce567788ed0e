pub mod Numbered
pub mod Right
pub mod Laid
pub mod Looks
pub mod Modes
