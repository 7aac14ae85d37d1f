pub mod Given
pub mod Sizes
pub mod Groups
