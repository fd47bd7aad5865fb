pub mod Asking
pub mod Lines
pub mod Locks
pub mod Rings
pub mod Sections
pub mod Walks
pub mod Weathers
