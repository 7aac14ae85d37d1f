pub mod Accepted
pub mod Distinct
pub mod Gathering
