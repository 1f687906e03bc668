pub mod Parted
pub mod Seating
pub mod Clocks
pub mod Naming
pub mod Ending
pub mod Same
