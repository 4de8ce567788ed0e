pub mod Scan
pub mod Lines
