pub mod Absent
pub mod Faults
pub mod NamedFiles
pub mod Replays
pub mod Served
pub mod Words
