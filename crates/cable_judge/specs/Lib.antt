pub mod Judge
pub mod Judged
pub mod Number
