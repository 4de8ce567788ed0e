pub mod Lined
pub mod Heading
