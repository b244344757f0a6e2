-- To believe: Pronounced says what phones and syllables a word has, Placing what say word does with them. Cutting, cited by inner contracts alone, is the word in bytes.
pub mod Pronounced
pub mod Placing
pub mod Cutting
pub mod Laws
