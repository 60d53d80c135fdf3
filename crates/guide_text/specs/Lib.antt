pub mod Faults
pub mod IsGuides
pub mod Guides
