-- What the public clauses cite: the texts of RFC 8259, trees, and what is asked of them.
pub mod formers
pub mod Number
pub mod Strings
pub mod Grammar
pub mod Depth
pub mod Within
pub mod Loose
pub mod Refusal
pub mod Keyed
pub mod Sound
pub mod Print
pub mod Sorting
pub mod Indent
pub mod Find
pub mod Look
pub mod Texts
pub mod Bundle
pub mod Edit
pub mod Messages
-- What the clauses of the reader's own functions cite: reading on lists, step by step.
pub mod Gives
pub mod Readings
pub mod Reading
pub mod Names
pub mod KeySet
pub mod Storage
