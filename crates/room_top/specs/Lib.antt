pub mod Commands
pub mod Outcome
pub mod Ending
pub mod Recovery
pub mod Refusing
pub mod Wanting
