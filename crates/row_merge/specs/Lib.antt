pub mod Rows
pub mod Part
pub mod Learned
