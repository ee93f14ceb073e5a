pub mod NormalForm
pub mod Divisors
pub mod Answer
