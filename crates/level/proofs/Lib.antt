pub mod Walks
pub mod Blocks
pub mod Stands
pub mod Aheads
pub mod Alike
