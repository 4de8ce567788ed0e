pub mod Heap
pub mod Stamps
