pub mod Task
pub mod Answers
pub mod Known
pub mod Queue
pub mod Search
pub mod State
