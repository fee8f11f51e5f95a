pub mod Statuses
pub mod Commands
pub mod Unhinted
pub mod Runs
pub mod Output
pub mod Texts
pub mod Agreed
