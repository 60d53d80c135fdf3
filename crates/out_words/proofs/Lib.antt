pub mod Fitting
pub mod Pieces
pub mod Placing
pub mod Plain
pub mod Splices
pub mod Wiring
