pub mod Powers
pub mod Polynomials
pub mod Elimination
pub mod Counting
pub mod Differences
pub mod MinimumDistance
