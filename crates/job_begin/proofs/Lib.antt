pub mod BeginLemmas
pub mod CauseLemmas
mod CellCounts
mod CountLemmas
pub mod EndLemmas
pub mod RefusalLemmas
pub mod StandLemmas
