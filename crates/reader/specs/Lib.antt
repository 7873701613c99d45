pub mod Reader
pub mod Steps
