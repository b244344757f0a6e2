-- Laws that only proofs use.
pub mod Checked
