pub mod Batches
pub mod Cuts
pub mod Gathering
pub mod Keeping
pub mod Leading
pub mod Parts
pub mod Showing
