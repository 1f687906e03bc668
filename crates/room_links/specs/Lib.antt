pub mod Outs
pub mod Links
