pub mod Image
pub mod Turns
pub mod Agreement
pub mod Traces
pub mod Seen
pub mod Reads
