pub mod ReadBack
pub mod Joined
