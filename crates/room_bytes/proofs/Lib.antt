pub mod Texts
pub mod Loops
pub mod Parts
pub mod Again
pub mod Once
pub mod Groups
