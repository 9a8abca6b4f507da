pub mod Hints
pub mod Printed
pub mod SameFiles
