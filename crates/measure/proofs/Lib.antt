pub mod Measures
pub mod Returned
