pub mod Answer
pub mod Listed
pub mod Returned
pub mod Pins
