pub mod Codes
pub mod Faults
pub mod Seen
pub mod Rests
pub mod Outcomes
