pub mod Scripted
pub mod Samples
