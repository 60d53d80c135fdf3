pub mod Lexeme
pub mod Form
pub mod Reading
pub mod Clauses
pub mod Names
pub mod Word
pub mod Bytes
