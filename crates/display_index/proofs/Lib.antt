pub mod ListedLemmas
pub mod StandingLemmas
