mod KeptLemmas
pub mod ManySaves
mod MarkLemmas
mod PrefixLemmas
pub mod PutLemmas
pub mod SafeLemmas
pub mod SavedLemmas
mod SettledCells
mod ValidLemmas
