pub mod Literals
pub mod Ids
pub mod Places
pub mod FreshIds
pub mod Placements
pub mod InjectedCells
pub mod InjectedValid
pub mod InjectedKeyed
mod FreshLaws
