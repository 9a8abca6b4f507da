pub mod Batch
pub mod Due
pub mod Kept
pub mod Lines
pub mod Owed
pub mod Stands
pub mod Telling
