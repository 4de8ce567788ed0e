pub mod Links
pub mod Nodes
