mod RowLemmas
mod Steps
mod Taken
mod Whole
mod Grown
mod LeastKeys
mod TagLaws
mod RoundTrip
