-- Laws that only proofs use.
pub mod Rows
pub mod Starts
