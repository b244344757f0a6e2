-- Laws that only proofs use.
pub mod Names
pub mod Turns
