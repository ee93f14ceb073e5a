pub mod Carrying
pub mod EachMoment
pub mod RuleStays
pub mod Shares
pub mod Spelled
