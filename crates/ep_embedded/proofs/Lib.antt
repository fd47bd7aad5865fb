mod Beginning
mod Refusals
mod Requests
mod Still
mod Writing
mod Puts
mod Longer
pub mod Heirs
mod Followed
