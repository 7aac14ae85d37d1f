pub mod Arms
pub mod Numbers
pub mod Fields
pub mod Tables
pub mod KnownTexts
pub mod Nodes
pub mod Grid
