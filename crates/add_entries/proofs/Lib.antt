-- Theorems and laws.
pub mod BothSteps
pub mod Ends
