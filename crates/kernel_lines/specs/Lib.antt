pub mod Happened
pub mod Due
pub mod Ends
pub mod Line
pub mod Lines
