-- To believe: Item says what an item of each kind may be, SoundItem the same byte by byte, as the papers do; Decided proves that they agree.
pub mod Item
pub mod SoundItem
