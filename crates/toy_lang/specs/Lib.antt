-- What a text of the toy language does, from its lines down.
pub mod ToyOut
pub mod Runs
pub mod Lines
pub mod Table
pub mod Expressions
pub mod Spellings
pub mod Literals
pub mod Variables
