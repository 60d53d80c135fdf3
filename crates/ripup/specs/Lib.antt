pub mod Hulls
pub mod Headline
pub mod Progress
pub mod Choices
pub mod Waiting
