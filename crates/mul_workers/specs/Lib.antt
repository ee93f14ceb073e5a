pub mod Inside
pub mod Workers
pub mod Rounds
pub mod Products
