pub mod Reach
pub mod Longest
pub mod Same
pub mod Sets
