mod Counting
pub mod Flagging
mod Receiving
mod Leading
pub mod Beginning
mod Keeping
mod OneReceipt
mod ReceiptsOnce
