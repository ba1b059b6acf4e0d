pub mod Sgn0
pub mod Heights
