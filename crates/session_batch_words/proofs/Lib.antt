pub mod Nexts
