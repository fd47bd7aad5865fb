pub mod Parts
pub mod Contents
pub mod Lives
pub mod Refusals
pub mod Reports
pub mod Judging
