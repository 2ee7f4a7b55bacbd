pub mod PageValues
pub mod Raw
