pub mod Terminals
pub mod Ends
pub mod Reading
