pub mod Slots
pub mod Close
