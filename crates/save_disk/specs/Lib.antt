pub mod Entries
pub mod Messages
pub mod Places
