pub mod Same
pub mod Values
pub mod States
