pub mod Words
pub mod Made
pub mod Lines
pub mod Codes
pub mod Reported
pub mod Ran
pub mod Ended
pub mod Promise
