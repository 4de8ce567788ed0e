pub mod Pairs
pub mod PairTurns
