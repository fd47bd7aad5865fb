pub mod CrashReads
pub mod CrashLifeReads
pub mod AskedReads
pub mod CrashProgress
