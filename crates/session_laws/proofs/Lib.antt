pub mod Polynomials
pub mod Lines
pub mod Answering
mod Examples
