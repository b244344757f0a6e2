-- To believe: Puts says what putting phones into a list leaves, for inner contracts alone.
pub mod Puts
