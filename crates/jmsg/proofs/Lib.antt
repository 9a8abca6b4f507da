pub mod ToldLemmas
pub mod FrameLemmas
pub mod VerdictLemmas
pub mod MessageLemmas
pub mod HeaderLemmas
pub mod DecodingLemmas
pub mod DateLemmas
pub mod CalendarLemmas
