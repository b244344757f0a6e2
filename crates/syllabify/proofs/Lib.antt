pub mod Written
pub mod OneVowel
pub mod Syllables
