pub mod Given
pub mod Ranges
pub mod Passing
