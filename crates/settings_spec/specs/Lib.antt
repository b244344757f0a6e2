-- To believe: Settings says what a settings store is, its values and its refusals; Sound says declaratively what a sound chain is and proves that the test decides it, Written what a write leaves.
pub mod Settings
pub mod Sound
pub mod Laws
