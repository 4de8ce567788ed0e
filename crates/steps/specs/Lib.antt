pub mod Steps
pub mod Pack
pub mod Runs
pub mod Mirrored
