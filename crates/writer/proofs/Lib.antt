pub mod Remainders
pub mod Checks
