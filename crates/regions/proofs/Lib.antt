pub mod Bounds
mod Greatest
pub mod Lists
pub mod CoverLemmas
pub mod SpanLemmas
pub mod TileLemmas
mod HandMade
