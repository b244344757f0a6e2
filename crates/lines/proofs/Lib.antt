pub mod UpTo
pub mod ByEnds
