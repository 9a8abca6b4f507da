pub mod TellLemmas
pub mod TurnLemmas
pub mod WaitLemmas
