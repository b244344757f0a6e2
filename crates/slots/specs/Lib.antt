-- To believe: Given says which entry a `NewEntry` gives.
pub mod Given
