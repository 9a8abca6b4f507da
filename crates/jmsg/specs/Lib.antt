pub mod Date
pub mod Dictionary
pub mod Header
pub mod Told
pub mod Signed
pub mod Encoded
pub mod Decoding
