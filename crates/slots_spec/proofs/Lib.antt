-- Theorems and laws.
pub mod Decided
pub mod Laws
pub mod Slot
