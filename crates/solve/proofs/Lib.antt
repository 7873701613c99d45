pub mod Measures
pub mod Solving
pub mod Finding
