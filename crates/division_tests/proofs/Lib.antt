mod Degrees
mod Dividing
pub mod Squares
