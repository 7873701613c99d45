pub mod Amounts
pub mod Sides
pub mod Columns
pub mod Returned
pub mod Laws
