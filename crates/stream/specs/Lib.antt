pub mod Cases
pub mod Grammar
pub mod Headers
pub mod Packing
pub mod Streams
pub mod Theorems
