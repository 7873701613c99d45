pub mod Numbers
pub mod Routed
