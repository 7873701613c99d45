pub mod Amount
pub mod Terminal
