pub mod Modules
pub mod Bytes
pub mod Left
