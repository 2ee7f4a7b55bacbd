pub mod ColumnFile
