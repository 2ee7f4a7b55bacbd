pub mod Bytes
pub mod Coming
pub mod Listing
pub mod Words
