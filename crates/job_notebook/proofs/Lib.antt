pub mod ForgetLemmas
pub mod KeptLemmas
pub mod ReadLemmas
pub mod SettleLemmas
