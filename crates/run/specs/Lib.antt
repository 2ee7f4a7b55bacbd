pub mod Packed
pub mod Coming
pub mod Reading
pub mod Runs
