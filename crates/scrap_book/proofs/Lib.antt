pub mod MergingLemmas
mod RowLemmas
mod WrittenRows
mod OnceLemmas
pub mod ParameterLemmas
