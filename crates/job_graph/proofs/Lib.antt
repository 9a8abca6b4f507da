pub mod WaveLemmas
pub mod Assembly
pub mod Least
pub mod CountLemmas
pub mod RestLemmas
