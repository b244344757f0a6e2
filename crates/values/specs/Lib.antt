-- To believe: Values says what the value of a setting is, its bits, its range and which name a version knows.
pub mod Values
pub mod Laws
