pub mod Laid
pub mod Walks
pub mod Making
