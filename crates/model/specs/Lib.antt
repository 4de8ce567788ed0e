pub mod Judge
pub mod Told
pub mod Session
pub mod History
pub mod Cases
