pub mod ElementLaws
pub mod Elements
