-- Theorems and laws.
pub mod Filling
pub mod Grown
pub mod Laws
pub mod Line
