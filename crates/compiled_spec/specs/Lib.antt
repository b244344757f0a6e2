-- To believe: Entries says what a compiled entry is, Lexicon what a checked lexicon is, Search how a word is sought; Checked says what is found, without the search.
pub mod Entries
pub mod Lexicon
pub mod Search
pub mod Checked
