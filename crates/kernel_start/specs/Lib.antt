pub mod ConnectionFile
pub mod Finding
pub mod Launch
pub mod Messages
pub mod RandomWords
