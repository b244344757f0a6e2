pub mod Front
pub mod Chunks
