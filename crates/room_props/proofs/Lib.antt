pub mod AlwaysSound
pub mod Checking
pub mod Making
pub mod Short
pub mod Views
