-- Theorems and laws.
pub mod Added
pub mod Laws
pub mod MetLaws
pub mod Result
pub mod Sound
pub mod SoundStore
