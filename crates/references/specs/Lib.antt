pub mod Arrays
pub mod Groups
pub mod Mixed
