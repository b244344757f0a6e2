-- To believe: NewStore says what new store does; Fresh what it leaves.
pub mod NewStore
pub mod Fresh
