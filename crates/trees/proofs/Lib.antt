pub mod Turn
pub mod WalkLaws
