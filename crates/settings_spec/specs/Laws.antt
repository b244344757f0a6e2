-- Laws that only proofs use.
pub mod Names
