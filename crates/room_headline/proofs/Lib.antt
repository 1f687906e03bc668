pub mod Adding
pub mod Clocks
pub mod Everywhere
pub mod Following
pub mod Recovered
