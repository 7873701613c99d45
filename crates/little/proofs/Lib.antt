mod Words
pub mod Laws
