pub mod Entry
pub mod Columns
