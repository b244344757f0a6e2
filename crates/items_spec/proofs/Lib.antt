-- Theorems and laws.
pub mod Decided
pub mod Laws
