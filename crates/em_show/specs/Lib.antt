pub mod Show
pub mod Listing
pub mod Back
