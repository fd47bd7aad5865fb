pub mod Clients
pub mod Heads
pub mod Replays
pub mod Tables
pub mod Outcome
pub mod Reported
