pub mod Wholes
pub mod Row
pub mod DivideLaws
pub mod Workers
pub mod MergeRow
