pub mod Numbers
pub mod Batch
pub mod Promote
pub mod Cable
