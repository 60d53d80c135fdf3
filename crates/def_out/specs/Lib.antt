pub mod Conditions
pub mod Wiring
