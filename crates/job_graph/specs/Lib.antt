pub mod Faults
pub mod Given
pub mod Layers
pub mod Places
pub mod Refused
pub mod Shape
pub mod Waves
