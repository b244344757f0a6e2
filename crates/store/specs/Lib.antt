-- To believe: Wanting says which entries a `Wanted` wants.
pub mod Wanting
