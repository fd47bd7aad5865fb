pub mod Logs
pub mod Naming
pub mod Finding
pub mod Listing
pub mod Cutting
pub mod Owing
