pub mod Awaited
pub mod Inside
pub mod Runs
