pub mod OutcomeLemmas
pub mod ReadLemmas
pub mod RunLemmas
pub mod WordLemmas
