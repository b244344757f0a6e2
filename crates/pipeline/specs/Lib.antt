-- To believe: Told gives what a word comes to as numbers, for inner contracts alone.
pub mod Told
