pub mod Chains
pub mod Answer
pub mod Returned
