pub mod Calls
pub mod Faults
pub mod MemShelf
pub mod MemSink
pub mod PlainShelf
pub mod PlainSink
pub mod Shelf
pub mod Sink
