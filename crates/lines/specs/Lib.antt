-- The specification: how numbers and lines are written and read.
pub mod Numbers
pub mod Lines
