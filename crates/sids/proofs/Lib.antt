pub mod Zones
pub mod DataSizes
pub mod Found
pub mod Rinds
pub mod Context
pub mod Sized
mod Siblings
mod RequiredChild
