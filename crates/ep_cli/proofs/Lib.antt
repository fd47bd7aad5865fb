pub mod Given
pub mod NotRead
pub mod Printed
pub mod Pulling
pub mod Puts
