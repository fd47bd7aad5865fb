pub mod CrashMoves
pub mod CrashRuns
pub mod CrashLasts
pub mod CrashTraces
pub mod CrashPlayed
pub mod CrashOrders
pub mod CrashLives
pub mod CallMoves
pub mod Sealed
pub mod LifeStays
pub mod LifeChains
pub mod LifeFrames
pub mod LifeMoves
pub mod Growing
mod Renewing
mod Moments
mod Syncing
mod Opened
mod EachTaken
mod Noting
mod OpenReported
mod Decided
mod Learnt
pub mod Unclosed
