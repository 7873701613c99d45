pub mod Sides
pub mod Prints
