pub mod Serving
pub mod Seats
pub mod Names
pub mod News
pub mod Waiting
