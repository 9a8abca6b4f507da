mod Runs
mod WordLemmas
mod Saves
mod Spared
mod Crashes
mod Ends
mod Heard
mod Acknowledged
