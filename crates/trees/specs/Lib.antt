-- To believe: Walk says what a node is and how a tree is walked.
pub mod Walk
