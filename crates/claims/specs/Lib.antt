pub mod Calls
pub mod Orders
pub mod Demand
pub mod Same
pub mod Cases
