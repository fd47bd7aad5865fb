mod Appending
mod Held
mod InTurn
pub mod Unread
mod Unassembled
mod Opened
mod Beside
mod Checked
mod Ordered
mod MapsOfLogs
