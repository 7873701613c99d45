pub mod Ranges
pub mod Starts
