-- Theorems and laws.
pub mod Laws
pub mod Sound
pub mod Written
