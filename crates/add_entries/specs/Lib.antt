-- To believe: AddEntries says what add text does; Ends what it leaves, and BothSteps that it is both steps of 02, S-2, together.
pub mod AddEntries
pub mod Ends
pub mod BothSteps
