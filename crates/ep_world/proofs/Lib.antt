pub mod Sent
pub mod Grown
pub mod Kept
pub mod Taken
pub mod Laws
pub mod Refusing
