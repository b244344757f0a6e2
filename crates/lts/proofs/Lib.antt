pub mod Fill
pub mod Put
pub mod Leftwards
pub mod Stopping
pub mod Found
