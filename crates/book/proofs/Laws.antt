-- Laws that only proofs use.
pub mod Counts
