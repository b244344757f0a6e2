-- To believe: WriteSetting says what the call answers and leaves, with the ranks of its refusals; Given says it of the bits that C hands in, Accepted proves what an accepted write leaves.
pub mod WriteSetting
pub mod Given
pub mod Accepted
pub mod Laws
