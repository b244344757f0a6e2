-- Theorems and laws.
pub mod FewPhones
pub mod Laws
pub mod Letters
pub mod Stopped
