pub mod Found
pub mod Runs
pub mod Stalls
pub mod Counting
pub mod Rounds
