pub mod Lent
pub mod Tying
pub mod Bossing
