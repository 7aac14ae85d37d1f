pub mod Whole
pub mod Checks
pub mod Agreement
