pub mod Standing
pub mod CrashReading
pub mod GoingOn
pub mod LifeStanding
pub mod CrashLifeReading
pub mod Asking
pub mod Coming
