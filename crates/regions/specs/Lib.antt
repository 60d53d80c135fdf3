pub mod Covered
pub mod Halo
pub mod Spans
pub mod Tiles
