pub mod Values
pub mod Stacks
pub mod Moving
pub mod Moves
