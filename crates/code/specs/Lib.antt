pub mod Generator
pub mod Blocks
pub mod Refusals
pub mod Distance
