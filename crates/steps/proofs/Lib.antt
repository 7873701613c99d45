pub mod Stepped
pub mod Back
