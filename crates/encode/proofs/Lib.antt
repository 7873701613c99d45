pub mod Left
pub mod Lengths
pub mod Bytes
pub mod Encoded
