-- The number theory behind the laws modulo an odd prime. An `impl` names these proofs; no contract cites them.
pub mod Congruences
pub mod TrialDivision
pub mod ListedPrimes
pub mod Euclid
pub mod DistinctLists
pub mod Pairing
pub mod UnitProducts
pub mod Euler
pub mod Powers
pub mod ModularLaws
pub mod Residues
