-- To believe: PreviewEntries says what preview entries does; Ends what it leaves: accepted, stopped at a line, or barred.
pub mod PreviewEntries
pub mod Ends
