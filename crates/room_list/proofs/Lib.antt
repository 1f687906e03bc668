pub mod Checking
pub mod Gaps
pub mod Made
pub mod Walked
