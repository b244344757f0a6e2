-- Theorems and laws.
pub mod Exact
pub mod Laws
pub mod Lookup
