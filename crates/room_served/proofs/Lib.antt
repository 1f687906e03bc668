pub mod Fronts
pub mod Says
pub mod Logged
pub mod Standing
