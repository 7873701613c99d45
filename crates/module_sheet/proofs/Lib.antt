mod Accepted
mod Making
pub mod Sound
pub mod Returned
