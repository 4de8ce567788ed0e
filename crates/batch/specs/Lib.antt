pub mod Batch
