pub mod Sending
pub mod Teams
pub mod Steps
pub mod Shares
pub mod Hiring
pub mod Bounds
pub mod GivingUp
pub mod BetweenSends
