pub mod Starts
pub mod Legal
pub mod Check
