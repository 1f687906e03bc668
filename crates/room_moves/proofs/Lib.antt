pub mod Fuses
pub mod Moments
pub mod Parts
pub mod Reading
