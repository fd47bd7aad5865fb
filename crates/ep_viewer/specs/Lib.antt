pub mod Faults
pub mod Spelled
pub mod Views
