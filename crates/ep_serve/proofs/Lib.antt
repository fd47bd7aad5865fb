pub mod Lists
pub mod OwnSteps
pub mod Growing
pub mod Keeping
pub mod Runs
pub mod States
pub mod Sweeping
pub mod Stopping
