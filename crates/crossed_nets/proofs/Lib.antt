mod Numbers
mod Conflicts
pub mod CrossedLemmas
pub mod Wires
mod Fits
mod Touching
