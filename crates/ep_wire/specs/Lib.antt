pub mod Front
pub mod Requests
pub mod Answers
