pub mod Beside
pub mod Names
pub mod Order
