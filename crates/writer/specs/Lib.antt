pub mod Writing
pub mod Division
