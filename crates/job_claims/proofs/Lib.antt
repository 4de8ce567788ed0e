pub mod Opening
pub mod Goes
pub mod Lists
pub mod Lines
pub mod Numbers
pub mod Cases
pub mod Theorems
