-- Theorems and laws.
pub mod Checked
pub mod Entries
pub mod Laws
pub mod Lexicon
pub mod Search
