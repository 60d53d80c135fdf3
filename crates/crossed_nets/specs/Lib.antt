pub mod Hits
pub mod Ascents
pub mod Ripped
