pub mod Answers
pub mod Found
pub mod Returned
pub mod TwoSearches
