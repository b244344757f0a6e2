-- Theorems and laws.
pub mod Claim
pub mod Every
pub mod Laws
pub mod WellCut
pub mod WrongSheets
