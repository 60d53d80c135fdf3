pub mod Added
pub mod Strokes
