-- To believe: Calls says what add entry calls in turn leave. What holds of any order of them stands in proofs/.
pub mod Calls
