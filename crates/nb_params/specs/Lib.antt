pub mod Python
pub mod Injected
pub mod Fresh
pub mod Escape
pub mod Pairs
pub mod Refused
pub mod Language
pub mod Placing
