pub mod Standing
pub mod Begun
pub mod Causes
pub mod Steps
