pub mod Bits
pub mod Cuts
pub mod Encodings
pub mod Faults
