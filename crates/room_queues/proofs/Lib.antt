pub mod Depths
pub mod Maps
pub mod Sent
