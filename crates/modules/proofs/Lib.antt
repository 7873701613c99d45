mod Cut
pub mod Lists
pub mod Moved
pub mod Nets
pub mod Sound
pub mod Terminals
