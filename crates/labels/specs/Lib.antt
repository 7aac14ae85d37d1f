pub mod Padded
pub mod Roles
pub mod Names
pub mod Cells
