pub mod Lists
pub mod Parting
pub mod Ranges
pub mod Scanning
pub mod Tiling
