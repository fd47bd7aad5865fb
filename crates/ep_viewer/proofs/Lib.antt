mod Ending
mod Dotted
