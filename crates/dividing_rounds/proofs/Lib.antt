pub mod WorkloadLemmas
pub mod LogLemmas
pub mod RunLemmas
pub mod StallLemmas
pub mod CountingLemmas
pub mod RoundLemmas
mod Examples
