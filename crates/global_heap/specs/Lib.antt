pub mod Names
pub mod Merges
pub mod Inside
pub mod Reached
pub mod Examples
pub mod Moments
