pub mod Pairs
pub mod Refusals
pub mod Towers
pub mod Signs
pub mod Proofs
