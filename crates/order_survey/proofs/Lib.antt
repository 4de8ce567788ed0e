pub mod Counts
pub mod Falls
pub mod Nodes
pub mod Lowers
pub mod Sums
pub mod Lines
pub mod Distances
pub mod Surveys
