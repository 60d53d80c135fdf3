pub mod Forbidden
pub mod Found
pub mod Gaps
pub mod Rows
pub mod Rules
