pub mod ArrayLaws
pub mod CellLaws
pub mod CompleteLaws
pub mod EntryLaws
pub mod RunLaws
pub mod Settling
pub mod Steps
pub mod ZoneLaws
