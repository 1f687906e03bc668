pub mod Halting
pub mod Running
