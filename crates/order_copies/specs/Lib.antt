pub mod Copy
pub mod Steps
