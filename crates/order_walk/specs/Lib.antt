pub mod OrderWalk
