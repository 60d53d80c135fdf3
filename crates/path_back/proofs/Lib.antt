pub mod Sliding
pub mod Walking
pub mod Back
