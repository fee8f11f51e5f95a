pub mod Appended
pub mod DrawnTasks
pub mod Short
