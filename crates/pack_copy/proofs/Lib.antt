pub mod Copying
pub mod ClosedObjects
pub mod CopiedGraph
pub mod Standing
