-- To believe: Fields, Records and Chain say what numbers, records and chains in bytes are, Between what zero and low bytes of a part are; Counted proves that different numbers from 1 to n are at most n, and n of them all of these. Their laws stand beside them.
pub mod Fields
pub mod Records
pub mod Chain
pub mod Between
pub mod Counted
pub mod Laws
