mod Bundling
mod Linked
mod Choosing
pub mod Ending
mod Flags
mod Judged
mod Making
mod Ranges
mod Rewriting
mod Verdicts
pub mod Literals
