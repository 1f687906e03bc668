pub mod Called
pub mod Maps
pub mod Received
