pub mod HistoryLemmas
pub mod ItemLemmas
pub mod SignatureLemmas
