-- To believe: Lookup says where a word is found, Adding what may be added. Exact proves what an exact entry changes, and that without one all is as 01 has it.
pub mod Lookup
pub mod Adding
pub mod Exact
