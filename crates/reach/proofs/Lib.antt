pub mod Reaches
pub mod Rightmost
pub mod Bounds
pub mod Standing
pub mod Completed
pub mod Smallest
pub mod Whole
pub mod Least
