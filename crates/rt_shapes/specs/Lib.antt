pub mod Polygons
pub mod EvenOdd
pub mod Sweep
pub mod GeneratedVias
