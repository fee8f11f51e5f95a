pub mod Lookups
pub mod Gathered
pub mod Layouts
pub mod Sized
pub mod Aligned
pub mod Whole
pub mod OneImage
pub mod Loading
