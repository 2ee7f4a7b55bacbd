pub mod BitPacked
pub mod Bits
pub mod Encoding
pub mod Filling
pub mod Flow
pub mod Headers
pub mod Packs
pub mod Runs
