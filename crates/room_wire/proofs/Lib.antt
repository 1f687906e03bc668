pub mod Fields
pub mod Law
pub mod Sound
