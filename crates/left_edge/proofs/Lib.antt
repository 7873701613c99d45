pub mod Lists
pub mod Order
pub mod Number
pub mod Method
pub mod Ends
pub mod Routes
pub mod Worked
