-- Theorems and laws.
pub mod Ends
