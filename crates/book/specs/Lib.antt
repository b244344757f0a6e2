-- To believe: Calls and Book say what a list of calls and its book are, Claim, with WellCut, what is claimed; Every proves it, and WrongSheets shows sheets of which it does not hold.
pub mod Calls
pub mod Book
pub mod WellCut
pub mod Claim
pub mod Every
pub mod WrongSheets
pub mod Laws
