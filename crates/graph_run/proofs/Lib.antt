mod JobStatuses
pub mod TestLemmas
pub mod CauseLemmas
pub mod RunLemmas
mod WaveTests
mod LawLemmas
mod FileLemmas
mod ApartLemmas
mod RestedLemmas
mod WaitLemmas
mod RanLemmas
