-- To believe: Rehearsed has the words of the scope document as rows of one theorem, Settings has cases of the settings calls as rows of another. Grown has the stores that the words need.
pub mod Rehearsed
pub mod Settings
pub mod Grown
