pub mod Firsts
pub mod Finding
pub mod Inserting
pub mod Noting
pub mod Counting
pub mod Growing
