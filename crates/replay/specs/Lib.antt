pub mod Cores
pub mod Queues
pub mod Underway
pub mod ScheduleText
