pub mod Walk
pub mod After
pub mod Parts
