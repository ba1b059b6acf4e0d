-- The lemmas that several proofs share.
pub mod Numerals
pub mod Cuts
pub mod Spelled
pub mod Once
