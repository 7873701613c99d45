pub mod Keys
pub mod Selected
