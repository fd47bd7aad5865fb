pub mod Shown
pub mod Sending
pub mod Handled
pub mod Claimed
pub mod Rows
pub mod Firsts
mod Answering
mod Covering
mod FirstSeals
mod Lining
mod Saying
mod Seen
mod Stamps
mod Turning
pub mod OneClosings
pub mod OneHistory
pub mod Differing
pub mod Linking
pub mod Upgraded
