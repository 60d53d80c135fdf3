pub mod Chip
mod Rows
pub mod StateLemmas
pub mod GraphLemmas
pub mod LineLemmas
pub mod ShapeLemmas
pub mod EntryLemmas
pub mod PathLemmas
pub mod Rules
pub mod WalkLemmas
pub mod BlockLemmas
pub mod ReadingLaw
pub mod Agreement
