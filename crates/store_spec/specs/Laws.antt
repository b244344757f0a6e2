-- Laws that only proofs use.
pub mod Found
pub mod Exact
pub mod Hashes
