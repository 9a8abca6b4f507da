pub mod Raised
pub mod Accepted
