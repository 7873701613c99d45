pub mod Wirings
