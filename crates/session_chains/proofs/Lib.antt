pub mod Appended
pub mod Indexes
