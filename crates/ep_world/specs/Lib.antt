pub mod Played
pub mod Playing
pub mod Replicas
pub mod Safe
