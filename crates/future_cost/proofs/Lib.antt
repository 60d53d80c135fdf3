pub mod Hulls
pub mod Falling
