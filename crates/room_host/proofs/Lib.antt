pub mod Serving
mod Moments
mod Firing
mod Committing
pub mod Lying
mod Framing
mod Compacting
mod Recovering
mod Written
pub mod Keeping
