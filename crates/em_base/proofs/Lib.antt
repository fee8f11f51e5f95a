pub mod LineCounts
pub mod Trimming
pub mod WrittenNumbers
pub mod FirstFaults
