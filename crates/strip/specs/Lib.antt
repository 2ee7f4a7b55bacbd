pub mod Strip
pub mod Records
