pub mod Hmac
pub mod History
pub mod Signer
