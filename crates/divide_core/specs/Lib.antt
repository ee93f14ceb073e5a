pub mod Dividing
pub mod Answer
