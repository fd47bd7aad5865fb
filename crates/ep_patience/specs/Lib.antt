pub mod AtLast
pub mod Hosting
pub mod InTime
pub mod OpenBytes
pub mod Peers
pub mod Trips
pub mod Turning
pub mod Waiting
