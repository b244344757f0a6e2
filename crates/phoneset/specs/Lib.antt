-- To believe: Phones has the 50 rows as the Rust has them, Stress says how a stress is taken off; Rules proves the rules of the rows.
pub mod Phones
pub mod Stress
pub mod Rules
pub mod Laws
