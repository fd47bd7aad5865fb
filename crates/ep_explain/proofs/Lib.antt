pub mod Fronts
pub mod Reporting
pub mod Keeping
pub mod Differing
pub mod Nearness
pub mod Numbering
pub mod Texts
pub mod Sending
