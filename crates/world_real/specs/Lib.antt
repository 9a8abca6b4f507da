pub mod Answers
pub mod Files
pub mod Moments
pub mod Names
pub mod Ports
