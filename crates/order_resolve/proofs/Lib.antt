pub mod Standing
pub mod Turned
pub mod Copying
