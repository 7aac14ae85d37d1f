pub mod Laws
pub mod Readers
