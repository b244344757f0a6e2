-- Theorems and laws.
pub mod Appended
pub mod Decided
pub mod Laws
pub mod MetLaws
pub mod Read
pub mod SoundSheet
