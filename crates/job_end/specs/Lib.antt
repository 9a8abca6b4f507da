pub mod Statuses
pub mod Reasons
pub mod Answers
