pub mod After
pub mod Writer
pub mod Answers
pub mod Exports
pub mod Claims
pub mod Computed
