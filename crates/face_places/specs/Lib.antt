pub mod ZoneSections
pub mod Ranges
