-- To believe: Versions says which versions a sheet may have and which bytes are stresses in each, SoundStress the same in 02's words.
pub mod Versions
pub mod SoundStress
