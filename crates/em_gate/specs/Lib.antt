pub mod State
pub mod Tasks
pub mod Calls
pub mod Outcome
pub mod Effects
pub mod Events
pub mod Boot
pub mod Selecting
