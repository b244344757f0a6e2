-- To believe: Slot says what an entry is, and which slot holds it, SoundSlot what a sound slot is, byte by byte, as 01 does; Decided proves that they agree.
pub mod Slot
pub mod SoundSlot
pub mod Laws
