pub mod Rows
pub mod Script
pub mod Reading
pub mod Drafts
pub mod Page
pub mod Tags
