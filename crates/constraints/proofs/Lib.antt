pub mod Listed
pub mod Lies
