-- To believe: AcceptEntries says what accept entries does; Accepted what the tests of an accepted spare say.
pub mod AcceptEntries
pub mod Accepted
