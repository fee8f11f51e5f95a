pub mod Faults
pub mod Parts
pub mod Code
pub mod Application
pub mod Walk
pub mod Scheduled
