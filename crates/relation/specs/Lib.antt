pub mod Relation
