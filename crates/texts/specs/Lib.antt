-- To believe: Text says what words and tags are; Choice and Lists are the tests that all definitions are made of, with their laws.
pub mod Choice
pub mod Lists
pub mod Text
pub mod Laws
