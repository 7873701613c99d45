pub mod Next
pub mod Lower
pub mod Exact
pub mod Walk
pub mod Order
pub mod Worked
