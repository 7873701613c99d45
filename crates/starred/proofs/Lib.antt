pub mod Table
pub mod Pairs
