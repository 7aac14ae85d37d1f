pub mod Cases
pub mod Moving
pub mod Halving
pub mod Inserting
pub mod Intervals
pub mod Half
pub mod Gathering
pub mod Keys
