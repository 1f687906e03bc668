pub mod Commanding
mod Ending
mod Fronts
mod Recovering
mod Refusing
mod Tasks
