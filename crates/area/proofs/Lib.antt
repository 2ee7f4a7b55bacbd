pub mod Appending
pub mod Buffering
pub mod Holding
pub mod Shows
