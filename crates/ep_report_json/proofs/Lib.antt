pub mod Objects
pub mod Chained
