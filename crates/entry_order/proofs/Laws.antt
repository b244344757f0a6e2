-- Laws that only proofs use.
pub mod OfWord
pub mod Room
pub mod Alike
pub mod BothOrders
