pub mod Envelope
pub mod Subscription
pub mod Reply
pub mod Peer
pub mod Sending
