mod Places
pub mod Laws
