-- To believe: Tree says what words, syllables and phones are on a sheet, Sheet when it is sound and what it reads as, Sound the same without a walk (Decided: both ways; SoundSheet: its length and items as 01 has them), Append how a word is put last. Read, Met and Appended prove what a sound sheet says, before and behind that. Cuts, cited by inner contracts alone, is a word in bytes.
pub mod Tree
pub mod Sheet
pub mod Sound
pub mod Append
pub mod SoundSheet
pub mod Decided
pub mod Appended
pub mod Cuts
pub mod Laws
