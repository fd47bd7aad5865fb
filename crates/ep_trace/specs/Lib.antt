pub mod Lines
pub mod Traced
pub mod Left
