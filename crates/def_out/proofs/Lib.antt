mod Rows
pub mod Routed
