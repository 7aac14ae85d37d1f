pub mod Keys
pub mod Index
