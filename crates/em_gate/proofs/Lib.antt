pub mod Bits
pub mod Refused
