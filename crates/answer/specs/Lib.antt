pub mod Answers
pub mod Number
pub mod Shown
pub mod Tally
