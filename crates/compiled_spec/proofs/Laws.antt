-- Laws that only proofs use.
pub mod Below
pub mod Numbers
pub mod Order
