-- EitherOrder proves that neither lookup nor say word tells in which order two entries of different folded words were added, AnyOrder the same of any number of entries, OtherOrder that two are accepted in both orders or in neither.
pub mod AnyOrder
pub mod EitherOrder
pub mod OtherOrder
pub mod Laws
