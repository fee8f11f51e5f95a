pub mod Plugged
pub mod Puts
