pub mod Faults
pub mod Values
pub mod Tests
pub mod Reading
