-- Laws that only proofs use.
pub mod Ends
pub mod FromPlace
pub mod Phones
pub mod Took
pub mod Turns
