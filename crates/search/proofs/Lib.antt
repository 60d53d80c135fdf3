mod Changed
mod Entries
mod Masks
mod Numbered
mod OnTiles
mod StateChanges
mod StateSums
pub mod ViewLaw
mod WholeLemmas
