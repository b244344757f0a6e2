-- Laws that only proofs use.
pub mod Behind
pub mod Bytes
pub mod Chained
pub mod Grown
pub mod Kept
pub mod Parsed
pub mod Places
pub mod Said
pub mod Tied
pub mod Ties
pub mod Turns
pub mod Walked
pub mod Wrote
