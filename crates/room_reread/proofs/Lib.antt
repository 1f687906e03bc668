mod Arriving
mod Depths
pub mod Everywhere
mod Fitting
mod Frames
mod Jsons
pub mod Kept
mod Sending
mod Sizes
pub mod Waiting
