pub mod DividingSteps
pub mod TakenOut
pub mod Fitting
pub mod Loop
pub mod Ends
