-- Laws that only proofs use.
pub mod Bytes
pub mod Counts
pub mod Cut
pub mod Exact
pub mod Found
pub mod Hashes
pub mod Keys
pub mod Known
pub mod New
pub mod Placed
pub mod Sought
pub mod Tied
pub mod Turns
