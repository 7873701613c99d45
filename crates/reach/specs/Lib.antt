pub mod Reach
pub mod Greedy
