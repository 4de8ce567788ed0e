pub mod Renaming
pub mod Pairs
pub mod SpacePairs
pub mod CopyPairs
pub mod Looks
pub mod Reached
pub mod SameEnds
pub mod SameReadings
