pub mod Indexes
pub mod NetGuides
