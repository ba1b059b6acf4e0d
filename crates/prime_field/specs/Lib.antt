pub mod Primes
pub mod Modular
pub mod Making
pub mod Exponents
pub mod Proofs
