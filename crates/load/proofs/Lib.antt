pub mod LoadOf
pub mod Table
pub mod Cuts
