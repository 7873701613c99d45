pub mod Constraints
pub mod Listed
