pub mod Laws
pub mod Bounds
pub mod Frame
pub mod Lent
