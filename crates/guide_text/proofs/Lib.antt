pub mod Listing
pub mod Grammar
