pub mod Products
pub mod Unique
pub mod Kept
