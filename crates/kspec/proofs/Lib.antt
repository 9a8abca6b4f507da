pub mod Faultless
mod Filled
mod Pairs
mod Unique
