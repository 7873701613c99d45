pub mod Empty
pub mod Planes
pub mod United
