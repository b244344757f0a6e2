-- Theorems and laws.
pub mod Accepted
