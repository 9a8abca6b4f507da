pub mod Saves
pub mod Spared
pub mod Heard
pub mod Ends
pub mod Crashes
pub mod Acknowledged
pub mod Runs
mod FirstWords
mod CodeLemmas
mod Statuses
mod Executions
mod Files
mod Asked
mod Batches
mod Exercises
mod JobsApart
mod NumberLemmas
mod OpeningLemmas
mod GeneratedLemmas
