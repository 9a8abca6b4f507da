pub mod Elsewhere
pub mod Reads
pub mod Refused
pub mod Turns
pub mod Unput
