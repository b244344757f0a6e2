-- To believe: Lines says what the lines and fields of a text are, and Left that its iterators go through them.
pub mod Lines
pub mod Left
pub mod Laws
