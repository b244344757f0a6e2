-- To believe: Letters says how a word's letters become phones and where they stop, Call what predict answers and leaves; FewPhones proves why 7 is not among its refusals,
-- Stopped that the place is that behind the last "#", and that only bytes from there on give phones.
pub mod Letters
pub mod Call
pub mod FewPhones
pub mod Stopped
