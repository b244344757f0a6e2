-- Laws that only proofs use.
pub mod Zeros
pub mod Eight
pub mod Bytes
pub mod Chunks
