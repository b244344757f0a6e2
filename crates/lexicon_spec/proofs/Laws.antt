-- Laws that only proofs use.
pub mod Fitting
