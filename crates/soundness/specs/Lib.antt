pub mod Check
pub mod Read
