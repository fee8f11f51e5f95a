pub mod Runs
pub mod Answers
pub mod Reached
pub mod Boards
pub mod Words
