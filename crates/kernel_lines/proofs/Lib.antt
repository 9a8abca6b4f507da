pub mod LineLemmas
pub mod ChannelLemmas
