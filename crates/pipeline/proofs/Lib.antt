-- What the answers share. Assumes nothing.
pub mod Cuts
pub mod Phones
pub mod Put
