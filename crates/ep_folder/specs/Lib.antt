pub mod Paths
pub mod Plans
