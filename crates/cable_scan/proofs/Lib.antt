pub mod Scans
pub mod Front
pub mod Feeds
