pub mod Writable
pub mod Behind
