-- Laws that only proofs use.
pub mod BareCells
pub mod ChosenSource
pub mod Cuts
pub mod Fits
pub mod Handed
pub mod MayStand
pub mod Outcome
pub mod Sources
