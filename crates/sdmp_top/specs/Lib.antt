pub mod Memory
pub mod Outside
pub mod Work
pub mod Written
