pub mod Chains
pub mod Found
pub mod Nets
pub mod Returned
pub mod Sheets
pub mod Worked
