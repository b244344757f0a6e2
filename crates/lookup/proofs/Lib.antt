-- Theorems and laws.
pub mod CheckedLookup
pub mod LookupLaws
