pub mod Buckets
pub mod Cells
pub mod Near
pub mod Standing
pub mod Tables
pub mod Tiled
