pub mod Codes
pub mod Places
pub mod Tables
