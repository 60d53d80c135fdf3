pub mod Counts
pub mod SameShape
pub mod StandingLemmas
