pub mod Known
pub mod Ways
pub mod Private
pub mod Hint
pub mod Followed
pub mod Computed
