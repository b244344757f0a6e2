-- To believe: Addenda has the rows as the Rust has them, Find says how a word is matched; Rules proves the rules of the rows.
pub mod Addenda
pub mod Find
pub mod Rules
pub mod Laws
