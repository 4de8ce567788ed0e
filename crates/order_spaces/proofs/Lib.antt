pub mod Counting
pub mod Agree
pub mod Finishing
