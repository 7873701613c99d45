pub mod Weights
pub mod Steps
pub mod Loads
