pub mod Filling
pub mod Room
pub mod Answered
