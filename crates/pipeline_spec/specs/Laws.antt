-- Laws that only proofs use.
pub mod ChosenSource
