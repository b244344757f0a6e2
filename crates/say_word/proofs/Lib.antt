-- Theorems and laws.
pub mod Accepted
pub mod CheckedSaying
pub mod SameSource
