pub mod CourseLemmas
pub mod RestLemmas
