pub mod Squaring
pub mod Rounds
