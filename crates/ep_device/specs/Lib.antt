pub mod Device
pub mod Left
pub mod Memory
pub mod Files
