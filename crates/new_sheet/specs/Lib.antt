-- To believe: NewSheet says what new sheet does; Fresh what it leaves.
pub mod NewSheet
pub mod Fresh
