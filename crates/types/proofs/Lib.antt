pub mod Same
pub mod StoredNumbers
pub mod Missing
pub mod Roles
mod ZoneTypes
