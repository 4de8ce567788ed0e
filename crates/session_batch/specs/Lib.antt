pub mod Calls
pub mod Batch
pub mod Cases
