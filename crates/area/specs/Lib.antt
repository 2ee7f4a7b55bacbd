pub mod Areas
pub mod Buffers
pub mod Lent
pub mod LentLaws
pub mod Val
