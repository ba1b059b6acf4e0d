pub mod Correction
pub mod RoundTrip
pub mod Errors
