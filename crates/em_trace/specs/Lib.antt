pub mod Printed
pub mod Reading
pub mod ScheduleFaults
pub mod ScheduleWords
pub mod Schedules
pub mod Words
