-- Laws of this crate's own words.
pub mod Parts
