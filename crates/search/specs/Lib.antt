pub mod Answer
pub mod Returned
pub mod Pair
