pub mod Rules
pub mod Cuts
