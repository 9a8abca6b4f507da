pub mod Texts
pub mod Bundle
pub mod Contents
pub mod IsRead
pub mod Requests
