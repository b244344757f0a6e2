-- To believe: Lookup says what lookup answers and leaves; CheckedLookup proves what it answers where check lexicon says yes.
pub mod Lookup
pub mod CheckedLookup
