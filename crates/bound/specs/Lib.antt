pub mod LowerBound
pub mod Least
