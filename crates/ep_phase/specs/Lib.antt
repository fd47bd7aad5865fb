pub mod Leads
pub mod InstanceViews
pub mod Changes
pub mod Refused
pub mod Progress
