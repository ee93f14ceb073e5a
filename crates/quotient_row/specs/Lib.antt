pub mod Ends
pub mod Legal
pub mod Moments
pub mod Names
pub mod Rule
pub mod Spelling
pub mod Steps
