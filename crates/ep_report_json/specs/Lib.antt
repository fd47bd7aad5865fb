pub mod Members
pub mod Items
pub mod JsonReports
pub mod Chains
pub mod Judging
