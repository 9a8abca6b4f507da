mod FileLaws
mod FindingLaws
pub mod LaunchLaws
mod WordLaws
