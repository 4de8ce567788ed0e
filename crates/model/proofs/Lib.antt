pub mod Verdicts
pub mod Growth
pub mod Mirrors
pub mod Agreement
pub mod Refusals
pub mod Fair
pub mod Closings
pub mod Cases
