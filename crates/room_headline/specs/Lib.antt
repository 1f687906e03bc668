pub mod Headline
pub mod Recovering
