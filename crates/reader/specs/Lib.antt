-- To believe: Reader says what a reader takes at a position.
pub mod Reader
