pub mod Distances
pub mod Laws
