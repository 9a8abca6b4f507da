pub mod Loaded
pub mod Reasons
