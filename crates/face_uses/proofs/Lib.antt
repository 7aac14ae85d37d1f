pub mod Arrays
pub mod Runs
