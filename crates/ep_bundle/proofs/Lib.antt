pub mod Readings
pub mod Fronts
pub mod Filled
pub mod Loops
pub mod Next
pub mod Comparing
pub mod Compared
pub mod SameAnswers
pub mod Following
pub mod Journeys
pub mod Stepped
pub mod Bundles
pub mod Puts
pub mod WrittenCommands
pub mod WrittenStages
pub mod WrittenParts
pub mod WrittenFrames
pub mod WrittenRuns
pub mod WrittenCounts
pub mod WrittenEntries
pub mod WrittenJournals
pub mod WrittenHeaders
pub mod PairLoops
pub mod WrittenBundles
pub mod WrittenRanges
pub mod WrittenOnce
pub mod ReadNumbers
pub mod ReadCommands
pub mod ReadParts
pub mod ReadEntries
pub mod ReadJournals
pub mod ReadHeaders
pub mod MapBytes
pub mod ReadBundles
mod Counts
mod Each
mod Frames
mod Places
mod Reread
