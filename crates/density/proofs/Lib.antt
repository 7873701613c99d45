pub mod Sums
pub mod Counted
