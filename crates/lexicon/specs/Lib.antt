-- The words of this crate's own contracts.
pub mod Parts
