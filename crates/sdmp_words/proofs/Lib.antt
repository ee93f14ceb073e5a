pub mod CommandLemmas
pub mod States
pub mod Rules
pub mod WalkSteps
pub mod Walks
pub mod Accepting
pub mod Agreement
mod Examples
