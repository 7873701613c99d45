pub mod Terminals
pub mod Side
pub mod Sheets
