pub mod Keys
pub mod Orders
pub mod Placed
pub mod Looked
pub mod Placing
pub mod Trying
