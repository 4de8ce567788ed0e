pub mod Entries
pub mod Facts
pub mod FieldTests
pub mod Links
pub mod Spans
