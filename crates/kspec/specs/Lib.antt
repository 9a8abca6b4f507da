pub mod Arguments
pub mod Connection
pub mod KernelJson
pub mod Name
pub mod Messages
