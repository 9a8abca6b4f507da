pub mod Core
pub mod Standing
pub mod Wanted
pub mod Opening
pub mod Told
pub mod ExampleRules
