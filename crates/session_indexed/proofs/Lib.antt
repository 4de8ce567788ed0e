pub mod Stays
pub mod Keeps
