pub mod Digits
pub mod Writing
