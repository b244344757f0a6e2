-- To believe: AddEntry says what add entry does; Accepted what an accepted entry leaves.
pub mod AddEntry
pub mod Accepted
