pub mod Places
pub mod Passes
pub mod Closes
pub mod Keeps
