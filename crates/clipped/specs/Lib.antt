pub mod Clipped
