pub mod Buffers
pub mod Solved
pub mod Placed
