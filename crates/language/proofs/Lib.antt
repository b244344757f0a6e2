pub mod Walk
pub mod ByPlace
