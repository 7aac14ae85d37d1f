pub mod Ranges
pub mod Outcomes
