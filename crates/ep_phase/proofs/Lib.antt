pub mod Answering
pub mod Refusals
pub mod Settled
pub mod TakenOut
