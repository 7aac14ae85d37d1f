pub mod ColumnLaws
pub mod ParentLaws
