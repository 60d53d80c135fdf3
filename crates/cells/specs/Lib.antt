pub mod Cells
pub mod Firsts
pub mod Indexes
pub mod Owners
pub mod Ranges
