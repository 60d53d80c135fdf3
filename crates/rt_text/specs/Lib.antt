pub mod Decimal
pub mod Point
