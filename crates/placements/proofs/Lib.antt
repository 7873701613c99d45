pub mod Sides
pub mod Matches
pub mod Worked
