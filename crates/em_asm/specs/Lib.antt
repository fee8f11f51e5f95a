pub mod Code
pub mod Image
pub mod Numbering
pub mod Coding
