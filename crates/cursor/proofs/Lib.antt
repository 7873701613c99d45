mod Steps
pub mod Laws
