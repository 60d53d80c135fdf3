pub mod Bands
pub mod Counts
pub mod DieTracks
pub mod EntryOrder
pub mod Nearby
