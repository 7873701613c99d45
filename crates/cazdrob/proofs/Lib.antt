pub mod Returned
pub mod TwoSearches
