pub mod Hints
pub mod Lines
