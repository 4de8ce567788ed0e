pub mod Chains
pub mod Joined
