-- To believe: PhoneString says what phone string answers and leaves.
pub mod PhoneString
pub mod Laws
