pub mod Fount
