pub mod OutsideLemmas
pub mod AnswerLemmas
pub mod SummaryLemmas
pub mod DivisionLemmas
pub mod LineLemmas
pub mod SettingLemmas
pub mod FactorLemmas
pub mod WorkLemmas
