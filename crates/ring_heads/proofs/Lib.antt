pub mod HeadLemmas
pub mod TopLemmas
pub mod Summing
pub mod TakenLemmas
pub mod Shares
