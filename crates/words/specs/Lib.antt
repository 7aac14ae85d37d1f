pub mod Difference
pub mod Width
