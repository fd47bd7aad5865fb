pub mod Faults
pub mod Answering
pub mod Acting
pub mod Lasting
pub mod Serving
