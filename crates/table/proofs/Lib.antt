pub mod Empty
pub mod Unions
pub mod Planes
