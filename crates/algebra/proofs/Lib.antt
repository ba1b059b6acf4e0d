pub mod Ring
pub mod Elements
pub mod Solved
pub mod Products
