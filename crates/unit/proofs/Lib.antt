pub mod NextEvent
pub mod Summary
pub mod Lawful
pub mod TaskEvents
pub mod Tallies
pub mod Once
