pub mod Digits
pub mod Decimal
