pub mod Lists
pub mod Order
pub mod Method
pub mod Spans
pub mod Routes
