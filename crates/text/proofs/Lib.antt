pub mod Written
pub mod DigitTurns
pub mod Decimals
pub mod DecimalTurns
