pub mod Codes
pub mod Faults
pub mod Hosted
pub mod Turn
pub mod Commit
