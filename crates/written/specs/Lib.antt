pub mod Cover
pub mod Cuts
pub mod Wires
pub mod Words
