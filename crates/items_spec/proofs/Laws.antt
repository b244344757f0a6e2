-- Laws that only proofs use.
pub mod Fields
pub mod Patched
pub mod Written
