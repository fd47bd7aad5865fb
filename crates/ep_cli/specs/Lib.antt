pub mod Causes
pub mod Codes
pub mod Endings
pub mod Files
pub mod Lines
pub mod Outputs
pub mod Printed
