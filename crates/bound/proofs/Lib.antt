pub mod LowerBound
