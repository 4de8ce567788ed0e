pub mod Cuts
pub mod Held
pub mod Cutting
pub mod Any
pub mod Passing
pub mod Seen
pub mod Right
pub mod Back
