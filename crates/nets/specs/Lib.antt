pub mod Nets
pub mod Distinct
pub mod Left
