pub mod Marks
pub mod ParentMarks
