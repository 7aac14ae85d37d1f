pub mod Offsets
pub mod ShapeLaws
pub mod StageLaws
