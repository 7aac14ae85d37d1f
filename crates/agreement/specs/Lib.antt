pub mod Arrays
pub mod Matching
