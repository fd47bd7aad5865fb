mod Planned
pub mod Referred
