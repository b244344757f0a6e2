-- To believe: SayWord says what say word answers and leaves. Accepted proves what an accepted one leaves, SameSource that its source is lookup's,
-- CheckedSaying that 6 comes only from the letter trees where check lexicon says yes.
pub mod SayWord
pub mod Accepted
pub mod SameSource
