-- To believe: Syllables says where a list of phones is cut, Call what syllabify answers and leaves; OneVowel proves that each syllable has its vowel.
pub mod Syllables
pub mod Call
pub mod OneVowel
