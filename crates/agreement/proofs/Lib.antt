pub mod Columns
pub mod Reached
pub mod Feasible
pub mod Letters
pub mod Written
pub mod Walked
pub mod Binding
pub mod Ordered
