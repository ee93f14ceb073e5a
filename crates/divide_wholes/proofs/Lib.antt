pub mod LatestMark
pub mod Candidate
pub mod RowLemmas
pub mod StartLemmas
pub mod ProcessLemmas
pub mod TakeLemmas
pub mod WorkerLemmas
pub mod MarkLemmas
pub mod MergeRowLemmas
mod Examples
