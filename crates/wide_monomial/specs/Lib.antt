pub mod Layouts
pub mod Packing
pub mod Sums
pub mod SumsFields
pub mod SumsLaws
