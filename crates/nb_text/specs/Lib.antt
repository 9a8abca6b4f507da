pub mod Generated
pub mod Lines
pub mod Cells
pub mod Notebooks
