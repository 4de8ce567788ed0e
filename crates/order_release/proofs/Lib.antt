pub mod Releasing
pub mod Unlinking
