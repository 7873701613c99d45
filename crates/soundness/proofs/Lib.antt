pub mod Checks
mod Sounds
pub mod Laws
