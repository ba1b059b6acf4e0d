pub mod Operations
pub mod Laws
pub mod Roots
pub mod Powers
pub mod Identities
pub mod Refusals
