mod Auditing
mod Bodies
mod Heirs
mod Heads
mod Made
