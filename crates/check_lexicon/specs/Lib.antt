-- To believe: CheckLexicon says what check lexicon answers; Yes what a yes means for a lookup.
pub mod CheckLexicon
pub mod Yes
