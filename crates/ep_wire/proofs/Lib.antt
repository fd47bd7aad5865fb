pub mod Parsed
pub mod Lengths
pub mod Keyed
pub mod ReportedLengths
