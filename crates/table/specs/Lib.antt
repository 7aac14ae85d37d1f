pub mod Groups
pub mod Siblings
pub mod Sums
