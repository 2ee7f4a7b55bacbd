pub mod Columns
pub mod Courses
pub mod Levels
pub mod Lookahead
pub mod Records
pub mod Theorems
