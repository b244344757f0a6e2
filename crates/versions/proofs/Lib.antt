-- Theorems and laws.
pub mod Laws
pub mod SoundStress
