pub mod Causes
pub mod Happening
pub mod Memory
