mod AskedWritten
mod AtLast
mod InTime
mod OpenRead
mod Turning
