pub mod Performs
pub mod Made
pub mod Loops
pub mod Restarts
pub mod Surplus
pub mod Fresh
pub mod Calls
pub mod Listed
