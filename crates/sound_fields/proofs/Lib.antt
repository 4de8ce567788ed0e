pub mod ForAll
pub mod Hopes
