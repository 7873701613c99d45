pub mod Ends
pub mod Pins
