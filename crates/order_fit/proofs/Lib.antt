pub mod Summing
pub mod Looking
