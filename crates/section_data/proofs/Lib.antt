pub mod Stored
pub mod ArrayLaws
pub mod SectionContext
pub mod RangeLaws
pub mod TableLaws
pub mod Passing
