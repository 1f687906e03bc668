pub mod Moments
pub mod Choices
pub mod Recorded
