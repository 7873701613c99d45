pub mod Letters
pub mod Walking
