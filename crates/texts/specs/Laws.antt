-- Laws that only proofs use.
pub mod Keys
pub mod Library
pub mod Same
pub mod Largest
pub mod Folding
pub mod Mixed
