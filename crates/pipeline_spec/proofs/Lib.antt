-- Theorems and laws.
pub mod Laws
