pub mod Digits
pub mod Numerals
pub mod Naturals
pub mod Words
