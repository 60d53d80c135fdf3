pub mod Inside
pub mod Answering
