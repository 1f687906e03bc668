pub mod Maps
pub mod Spreading
