pub mod Merging
pub mod Scraps
pub mod Written
