-- Laws that only proofs use.
pub mod Grouped
pub mod Numbers
pub mod Putting
