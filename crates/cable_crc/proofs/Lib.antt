pub mod Xor
pub mod Division
pub mod Checked
