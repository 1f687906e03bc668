mod Kept
pub mod Actors
mod Updating
mod Written
mod Valid
