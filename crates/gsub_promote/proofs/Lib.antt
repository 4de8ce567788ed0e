pub mod Least
pub mod Afresh
pub mod Shown
pub mod Promise
pub mod Trying
pub mod Looking
