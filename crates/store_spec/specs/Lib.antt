-- To believe: Store says what a store is, Adding how adding changes it. Sound says the same as Store, of slots in order, and SoundStore its tests as 01 does, with proofs both ways; Met proves that every slot is met, Added, by Result, what adding leaves.
pub mod Store
pub mod Adding
pub mod Sound
pub mod SoundStore
pub mod Result
pub mod Laws
