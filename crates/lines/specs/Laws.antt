-- Laws that only proofs use.
pub mod Ascii
pub mod Turns
