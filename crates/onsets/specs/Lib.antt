-- To believe: Onsets has the list as the Rust has it; Rules proves its rules.
pub mod Onsets
pub mod Rules
