pub mod Estimates
pub mod ProductSums
