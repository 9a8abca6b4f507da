pub mod Kept
pub mod Messages
pub mod Prefix
pub mod Safe
pub mod Saved
pub mod State
