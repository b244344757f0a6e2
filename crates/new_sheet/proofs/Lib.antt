-- Theorems and laws.
pub mod Fresh
