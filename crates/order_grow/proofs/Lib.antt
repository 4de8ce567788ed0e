pub mod Alike
pub mod Appending
pub mod Leading
