pub mod Texts
pub mod Clauses
pub mod Ends
pub mod Laws
pub mod Skips
pub mod Loops
pub mod Whole
pub mod Bytes
