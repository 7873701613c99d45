pub mod Sorted
pub mod Selected
pub mod Pins
pub mod Keys
