pub mod OwedTo
