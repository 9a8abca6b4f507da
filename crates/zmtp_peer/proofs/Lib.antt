pub mod BodyLemmas
pub mod ReplyLemmas
pub mod PrefixLemmas
pub mod PeerLemmas
pub mod SendingLemmas
pub mod OwedLemmas
pub mod HeardLemmas
