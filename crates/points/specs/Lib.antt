pub mod Between
pub mod Given
